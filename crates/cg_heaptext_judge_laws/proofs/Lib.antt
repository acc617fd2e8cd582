pub mod Running
mod Fronts
mod Mentioned
mod Over
mod Whole
