pub mod Complete
pub mod Ends
pub mod Follow
pub mod Laws
pub mod Lists
pub mod Short
pub mod Sound
