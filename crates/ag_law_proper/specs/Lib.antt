pub mod Growth
pub mod Law
pub mod LogsHave
pub mod Places
pub mod Trims
pub mod Ended
pub mod Records
