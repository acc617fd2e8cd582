pub mod Joining
pub mod Following
pub mod Deciding
pub mod Topping
pub mod Samples
pub mod Untouched
