pub mod ProperRecords
pub mod Reached
