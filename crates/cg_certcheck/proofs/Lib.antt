pub mod BodySteps
pub mod FaultKinds
pub mod FormSteps
pub mod FrontSteps
pub mod JudgeSteps
pub mod PassSteps
