pub mod Bounded
pub mod Builder
pub mod Maps
pub mod Plain
pub mod Views
