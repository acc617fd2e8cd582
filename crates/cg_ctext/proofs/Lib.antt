pub mod Lines
pub mod Readings
pub mod Rows
pub mod Shown
pub mod Spaced
pub mod Standing
pub mod Texts
pub mod Waiting
