pub mod Default
pub mod Whole
