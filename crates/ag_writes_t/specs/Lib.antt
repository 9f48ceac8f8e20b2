pub mod RowHomes
