pub mod Bounded
pub mod Grammar
pub mod Laws
pub mod Machine
pub mod Plain
pub mod Stack
pub mod States
pub mod Views
