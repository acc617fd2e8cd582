pub mod Erasures
pub mod Views
pub mod Forms
pub mod FormGroups
pub mod Operands
