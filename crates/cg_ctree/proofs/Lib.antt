pub mod Depths
pub mod Division
pub mod Munch
