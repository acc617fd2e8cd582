pub mod BodySteps
pub mod ChoiceLaws
pub mod ExprLaws
pub mod LookLaws
pub mod TermForms
pub mod TermLaws
pub mod TermLists
pub mod TermSteps
