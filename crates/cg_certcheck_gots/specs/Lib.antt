pub mod Gots
pub mod Held
pub mod Records
