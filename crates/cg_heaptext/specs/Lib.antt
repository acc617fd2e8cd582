pub mod Answers
pub mod Faults
pub mod Filled
pub mod Reach
pub mod Typed
