pub mod Images
pub mod Views
pub mod Standing
pub mod Redoing
pub mod Asking
pub mod Flushing
