pub mod Laws
pub mod Spells
pub mod Tokens
pub mod Trees
