pub mod ContextSteps
pub mod NodeSteps
pub mod SplitSteps
pub mod TestSteps
