pub mod Images
pub mod Right
