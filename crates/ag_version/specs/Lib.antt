pub mod Edits
pub mod Trimming
pub mod Picking
pub mod Steps
