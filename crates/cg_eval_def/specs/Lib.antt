pub mod Evaluation
pub mod Foreigns
