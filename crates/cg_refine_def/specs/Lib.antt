pub mod Contexts
pub mod Refined
