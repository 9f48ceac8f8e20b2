pub mod Each
pub mod Filters
pub mod Places
pub mod Results
pub mod Tests
