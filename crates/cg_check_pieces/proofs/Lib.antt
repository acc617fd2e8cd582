pub mod BodySteps
pub mod CoreSteps
pub mod FieldSteps
pub mod SeenSteps
pub mod Steps
pub mod TermSizes
