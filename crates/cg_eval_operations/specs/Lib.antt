pub mod Iterators
pub mod Operators
pub mod Positions
