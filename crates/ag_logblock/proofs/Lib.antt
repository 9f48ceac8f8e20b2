pub mod Cuts
pub mod Fits
pub mod Steps
pub mod Wholes
