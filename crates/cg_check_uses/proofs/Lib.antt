pub mod Numbers
pub mod PairSteps
pub mod PartSteps
pub mod SeenSteps
pub mod SettleSteps
pub mod TableSteps
