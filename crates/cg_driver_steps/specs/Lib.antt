pub mod World
pub mod Steps
pub mod Scripts
pub mod Codes
pub mod Parts
pub mod Samples
