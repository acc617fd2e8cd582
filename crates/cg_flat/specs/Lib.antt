pub mod Around
pub mod Codes
pub mod Flat
pub mod Lends
pub mod Seen
pub mod Settled
