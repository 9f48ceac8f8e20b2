pub mod Blocks
pub mod LogKept
pub mod Stored
pub mod LogOf
pub mod Stores
pub mod ReadOnly
