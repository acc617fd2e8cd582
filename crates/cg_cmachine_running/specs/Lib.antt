pub mod Flat
pub mod Machine
pub mod Statements
