pub mod CellItems
mod Fronts
mod Lefts
pub mod Listed
pub mod Maps
mod ReachSteps
mod ReadSteps
mod Readers
pub mod Shorter
mod SlotCells
pub mod Sounds
pub mod Tables
pub mod TopSteps
pub mod Widths
