pub mod Views
pub mod Standing
pub mod Coming
pub mod Following
pub mod Opening
pub mod Imaging
pub mod Fetched
