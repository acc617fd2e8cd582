pub mod Added
pub mod Within
