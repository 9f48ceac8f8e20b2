pub mod Appended
pub mod Steps
pub mod Fields
pub mod Loop
pub mod Records
pub mod Many
