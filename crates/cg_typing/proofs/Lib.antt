pub mod Sides
pub mod NodeSteps
pub mod Lists
pub mod CoreTypes
pub mod KeptAccepted
