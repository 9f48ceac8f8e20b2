mod Runs
mod Kept
pub mod Bytes
pub mod Found
pub mod Changed
pub mod Standing
mod Scanning
mod Left
