mod Dispatching
pub mod Declaring
pub mod Numbers
pub mod Operating
pub mod Paths
pub mod Statements
