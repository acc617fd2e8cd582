pub mod Answers
pub mod Capped
pub mod Keeps
pub mod Measures
pub mod Sizes
pub mod Wide
