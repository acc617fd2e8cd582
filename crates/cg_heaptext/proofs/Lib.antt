pub mod Faulting
pub mod OneByOne
pub mod Reaching
pub mod Starting
pub mod Whole
