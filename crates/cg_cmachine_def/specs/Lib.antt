pub mod BuiltIns
pub mod Layouts
pub mod Operands
pub mod Operations
pub mod Outcomes
pub mod Parts
pub mod Runs
pub mod Targets
