pub mod Capped
pub mod Given
pub mod World
