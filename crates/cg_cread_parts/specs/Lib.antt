pub mod Declarations
pub mod Heads
pub mod Operands
pub mod Symbols
pub mod Views
