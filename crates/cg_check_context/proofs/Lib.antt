pub mod ObservedSteps
pub mod ScopeSteps
pub mod SourceSteps
pub mod TestSteps
