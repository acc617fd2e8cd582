pub mod Closed
pub mod Fields
pub mod Gots
pub mod Nodes
pub mod Scopes
