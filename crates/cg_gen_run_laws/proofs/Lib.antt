pub mod Faultless
mod Held
pub mod Running
