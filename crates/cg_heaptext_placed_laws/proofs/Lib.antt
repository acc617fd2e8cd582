pub mod Placing
mod Counts
mod Spread
