pub mod Spelling
pub mod Image
pub mod Reading
pub mod Home
