pub mod Plain
pub mod Sizes
pub mod Ordered
pub mod Shapeless
pub mod Entries
