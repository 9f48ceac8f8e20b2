pub mod Ends
pub mod Performs
mod Worked
