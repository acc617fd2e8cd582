pub mod Derived
pub mod Kernel
pub mod Listed
pub mod Rows
pub mod Small
