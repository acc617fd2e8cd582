pub mod NameSteps
pub mod NodeSteps
