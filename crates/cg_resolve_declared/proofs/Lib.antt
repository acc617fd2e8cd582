pub mod DefinitionSteps
pub mod Firsts
pub mod FunctionSteps
pub mod Tables
pub mod TypeSteps
