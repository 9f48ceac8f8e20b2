pub mod Lists
pub mod Rising
pub mod Copied
pub mod Added
pub mod Refused
pub mod Effects
pub mod Having
