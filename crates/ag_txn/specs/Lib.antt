pub mod View
pub mod Faults
pub mod Checks
pub mod Invariant
pub mod Fresh
pub mod Changes
pub mod Effective
