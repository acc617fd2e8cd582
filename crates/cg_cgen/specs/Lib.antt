pub mod Dispatched
pub mod Iterators
pub mod Meanings
