pub mod ContentSteps
pub mod PlacingSteps
pub mod Small
