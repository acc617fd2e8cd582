pub mod Forms
pub mod Held
pub mod Named
pub mod Nodes
pub mod Places
pub mod Sources
