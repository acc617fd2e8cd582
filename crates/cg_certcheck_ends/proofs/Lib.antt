pub mod LeafSteps
pub mod MarkSteps
