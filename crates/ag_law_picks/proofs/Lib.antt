pub mod Tops
pub mod Trims
pub mod Changes
pub mod Commits
pub mod Picks
