pub mod Added
pub mod Plain
pub mod Tables
pub mod Found
pub mod Hints
