mod FormSteps
mod TermSteps
