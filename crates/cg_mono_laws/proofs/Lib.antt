pub mod Calls
pub mod Heard
pub mod Kept
pub mod Listed
pub mod Nodes
pub mod Outcomes
pub mod Same
pub mod Types
