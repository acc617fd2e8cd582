mod Apart
mod Boxed
mod Each
mod Events
mod Faultless
mod Fine
mod Found
mod Holding
mod Opening
pub mod Representing
mod Shapes
mod SmallCells
mod SmallLoose
pub mod SmallReads
mod SmallScalars
pub mod SmallTexts
pub mod SmallValues
mod Stable
mod Standing
