pub mod Spelling
pub mod Steps
pub mod Reading
pub mod Lists
