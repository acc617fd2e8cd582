pub mod BinderSteps
pub mod ChoiceSteps
pub mod PartLaws
