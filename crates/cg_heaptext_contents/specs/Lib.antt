pub mod Contents
pub mod Placings
