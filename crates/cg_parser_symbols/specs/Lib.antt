pub mod Exactness
pub mod Follows
pub mod Readings
pub mod Symbols
pub mod Views
