pub mod Numerals
pub mod Repeats
pub mod Spelled
pub mod Those
mod Joining
mod Answered
