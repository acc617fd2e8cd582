pub mod Cuts
pub mod Division
mod Example
pub mod Gaps
pub mod Munch
pub mod Numbers
