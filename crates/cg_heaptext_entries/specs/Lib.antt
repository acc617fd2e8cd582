pub mod Index
pub mod Passes
pub mod Skip
