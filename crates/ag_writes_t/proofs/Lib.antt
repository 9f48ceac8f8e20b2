pub mod Performed
pub mod RowHomes
