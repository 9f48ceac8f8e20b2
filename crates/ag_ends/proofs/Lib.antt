pub mod Places
pub mod BlockEnds
pub mod Rise
pub mod Starts
pub mod CutStarts
pub mod Forks
pub mod Records
