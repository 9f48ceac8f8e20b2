pub mod Acts
pub mod Cuts
pub mod Families
pub mod Parts
