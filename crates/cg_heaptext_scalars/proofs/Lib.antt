pub mod Adding
pub mod Boxes
pub mod Choosing
pub mod Listing
