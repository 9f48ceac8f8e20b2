pub mod Captured
pub mod Late
pub mod Limit
