pub mod Hex
pub mod Words
pub mod Lines
pub mod ReadWord
pub mod ReadWords
pub mod Shapes
pub mod Named
pub mod LineKinds
