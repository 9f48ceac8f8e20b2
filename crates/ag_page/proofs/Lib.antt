pub mod Takes
pub mod Zeros
pub mod Fields
pub mod Pages
pub mod Loops
pub mod Writes
pub mod Sectors
pub mod Founds
