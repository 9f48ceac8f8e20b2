pub mod Rule
pub mod Steps
pub mod Passes
pub mod Opens
pub mod Slots
pub mod Closes
pub mod Fetches
pub mod Applies
