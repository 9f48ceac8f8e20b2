pub mod Keeping
pub mod Cutting
pub mod Meaning
