pub mod Closed
mod MentionSteps
mod TypeSteps
mod Users
