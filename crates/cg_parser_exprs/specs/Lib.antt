pub mod Behind
pub mod State
