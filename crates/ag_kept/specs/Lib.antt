pub mod Reaching
pub mod Stopping
pub mod LogOn
pub mod Kept
pub mod Ending
pub mod Standing
pub mod Starting
pub mod Saving
