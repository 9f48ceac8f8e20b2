pub mod Appended
pub mod Parts
pub mod Payload
pub mod Loop
pub mod Messages
pub mod Sizes
