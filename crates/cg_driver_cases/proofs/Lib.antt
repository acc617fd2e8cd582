mod Entries
pub mod Whole
