pub mod Growing
pub mod MoveSteps
pub mod NodeSteps
mod PartSteps
mod Statements
