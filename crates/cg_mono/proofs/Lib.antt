pub mod Entries
pub mod Specialised
