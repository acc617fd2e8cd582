pub mod ArmSteps
pub mod BodySteps
pub mod FormSteps
pub mod JudgeSteps
pub mod OperandSteps
pub mod PassSteps
pub mod FieldSteps
