pub mod Exprs
pub mod Limits
pub mod Patterns
pub mod Programs
pub mod Written
