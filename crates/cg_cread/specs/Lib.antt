pub mod Answers
pub mod Blocks
pub mod Bodies
pub mod Laws
pub mod Machine
pub mod Views
