pub mod AnswerSteps
pub mod FunctionSteps
pub mod One
pub mod OrderSteps
