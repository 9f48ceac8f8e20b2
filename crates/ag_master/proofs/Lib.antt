pub mod Fields
mod Saving
