pub mod Parts
pub mod Positions
