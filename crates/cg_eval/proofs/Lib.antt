mod AskSteps
pub mod Begins
pub mod Costs
mod Ends
mod EvaluationRows
