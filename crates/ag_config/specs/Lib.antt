pub mod Head
pub mod Outcomes
