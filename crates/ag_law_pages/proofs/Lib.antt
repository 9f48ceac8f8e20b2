pub mod Touching
pub mod Values
pub mod Grown
pub mod Framed
pub mod Changed
