pub mod Shared
pub mod Touched
pub mod Planned
pub mod Resumed
