pub mod Kernels
pub mod Programs
pub mod Results
