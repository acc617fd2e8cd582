pub mod Bodies
pub mod Boxed
pub mod Directions
pub mod Fields
pub mod View
