pub mod Frames
pub mod View
pub mod Redo
pub mod Passes
