pub mod Homes
pub mod Performing
pub mod Writes
