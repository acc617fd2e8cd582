pub mod Behind
pub mod Parts
pub mod Says
pub mod Scopes
