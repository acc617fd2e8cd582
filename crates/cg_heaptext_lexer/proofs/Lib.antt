pub mod Cuts
pub mod Munch
pub mod Walking
