pub mod Frames
pub mod Built
pub mod Suspects
pub mod Masters
pub mod Blocks
pub mod Meanings
pub mod Pages
