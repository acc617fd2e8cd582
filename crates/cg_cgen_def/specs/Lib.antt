pub mod Bodies
pub mod Code
pub mod Dispatches
pub mod Loops
pub mod Names
pub mod Places
