pub mod Answers
pub mod Frames
pub mod Sites
pub mod Stands
