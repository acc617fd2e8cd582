mod IteratorSteps
mod CodeSteps
mod TypeSteps
