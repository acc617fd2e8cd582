pub mod Fixed
pub mod Lifts
pub mod Steps
