pub mod Groups
pub mod Members
pub mod Names
pub mod Settling
pub mod Slots
