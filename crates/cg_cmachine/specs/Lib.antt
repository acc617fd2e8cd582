pub mod Abstracts
pub mod Answering
pub mod Answers
