pub mod Ahead
pub mod Broken
pub mod Orders
pub mod Passed
