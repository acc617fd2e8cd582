pub mod Contexts
pub mod Steps
pub mod View
