pub mod Bounded
pub mod Grammar
pub mod Held
pub mod Machine
pub mod Plain
