pub mod Added
pub mod Complete
pub mod Ends
pub mod Follow
pub mod Laws
pub mod Short
pub mod Sound
pub mod Whole
