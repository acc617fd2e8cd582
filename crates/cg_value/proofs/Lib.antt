mod FitSteps
pub mod FormSteps
mod Printing
