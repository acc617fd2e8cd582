mod LibrarySteps
pub mod MadeSteps
