pub mod Cuts
pub mod Gaps
pub mod Munch
pub mod Walking
