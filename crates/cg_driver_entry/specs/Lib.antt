pub mod Typed
pub mod Types
pub mod Entries
