pub mod Faults
pub mod Ups
pub mod Reading
pub mod Writing
pub mod Accessing
pub mod Opening
pub mod Doing
