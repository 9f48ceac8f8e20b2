pub mod PageSets
pub mod Numbers
pub mod Rising
pub mod Prefixes
pub mod ProperPrefixes
