pub mod Laws
pub mod NumberSteps
pub mod Places
pub mod ReachSteps
pub mod WalkSteps
pub mod Found
pub mod Marked
mod Before
pub mod BucketSteps
mod Chains
pub mod OrderSteps
pub mod Standing
