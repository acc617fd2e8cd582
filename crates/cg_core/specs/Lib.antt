pub mod Derivations
pub mod Kernels
pub mod Terms
pub mod Groups
