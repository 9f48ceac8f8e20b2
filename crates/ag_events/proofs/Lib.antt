pub mod Tails
pub mod Masks
pub mod Spelled
pub mod Splits
pub mod Named
pub mod Solid
pub mod PrintedLines
