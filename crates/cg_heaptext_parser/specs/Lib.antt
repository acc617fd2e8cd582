pub mod Answers
pub mod Laws
pub mod Machine
pub mod Outline
pub mod Symbols
pub mod Views
