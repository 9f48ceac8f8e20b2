pub mod Spelled
pub mod Entries
pub mod Listing
pub mod Flags
pub mod Heads
