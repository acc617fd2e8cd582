pub mod ExpandSteps
pub mod NamedSteps
pub mod OrderSteps
pub mod TakeSteps
pub mod TypeLists
