mod OperationRows
pub mod PartSteps
mod TurnSteps
mod WordSums
