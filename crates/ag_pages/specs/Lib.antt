pub mod Views
pub mod Reading
pub mod Redo
pub mod Flush
