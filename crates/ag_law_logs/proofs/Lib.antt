pub mod Buffers
pub mod Whole
pub mod Reaching
