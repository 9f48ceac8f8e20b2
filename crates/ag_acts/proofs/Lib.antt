pub mod CutLaws
pub mod ToldLaws
pub mod Worked
