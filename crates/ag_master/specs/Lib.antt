pub mod Spelling
pub mod Loading
