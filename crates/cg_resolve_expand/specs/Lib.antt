pub mod Alternatives
pub mod Known
pub mod Pieces
pub mod Taken
