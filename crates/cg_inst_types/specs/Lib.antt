pub mod Codes
pub mod Forms
pub mod Layers
pub mod Listings
pub mod Places
