pub mod Ends
pub mod Grown
pub mod Forks
pub mod Sectors
pub mod Steps
pub mod Sent
pub mod Runs
