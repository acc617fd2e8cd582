pub mod Loops
pub mod Staying
