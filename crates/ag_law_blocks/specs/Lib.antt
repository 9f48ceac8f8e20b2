pub mod Blocked
pub mod Marks
