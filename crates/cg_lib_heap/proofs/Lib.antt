pub mod AllocateSteps
mod ArraySteps
mod Places
