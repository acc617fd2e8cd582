pub mod Views
pub mod Kept
pub mod Grown
