pub mod Entries
pub mod Skips
pub mod Standing
