pub mod Declarations
pub mod Tables
pub mod Views
