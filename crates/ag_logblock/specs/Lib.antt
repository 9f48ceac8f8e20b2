pub mod Block
pub mod Fitting
