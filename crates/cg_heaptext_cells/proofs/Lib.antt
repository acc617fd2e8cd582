pub mod Bounds
pub mod Forms
pub mod Gathering
pub mod Listing
pub mod Loosening
pub mod Passing
pub mod Standing
