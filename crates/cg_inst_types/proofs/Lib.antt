mod Built
mod Entered
mod Fronts
pub mod Growth
mod Layered
mod Listed
mod NodeEquality
mod Observed
pub mod Searches
mod Sound
