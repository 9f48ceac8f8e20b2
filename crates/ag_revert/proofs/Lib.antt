pub mod Starts
pub mod Parting
pub mod Touches
pub mod Unions
pub mod Resuming
