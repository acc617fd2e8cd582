pub mod Arrows
pub mod FunctionSteps
pub mod Lists
pub mod Placed
pub mod PrintedStructs
pub mod ProgramSteps
pub mod Programs
pub mod Ready
mod Apart
pub mod CallSteps
pub mod CollectSteps
