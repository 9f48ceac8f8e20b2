pub mod ReadOnly
pub mod Rows
pub mod Places
pub mod Saving
