pub mod Cells
pub mod ReadIn
pub mod Singles
pub mod Quiet
pub mod Accesses
pub mod Openings
