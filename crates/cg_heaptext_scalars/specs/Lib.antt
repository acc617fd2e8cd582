pub mod Alternatives
pub mod Given
