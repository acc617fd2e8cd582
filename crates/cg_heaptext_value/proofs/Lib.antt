pub mod Capping
pub mod Digits
pub mod Forms
pub mod Found
pub mod Listing
pub mod Told
