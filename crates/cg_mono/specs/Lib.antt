pub mod Copies
pub mod Fields
pub mod Monos
