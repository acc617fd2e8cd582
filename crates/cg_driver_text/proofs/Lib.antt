pub mod Begun
mod Runs
