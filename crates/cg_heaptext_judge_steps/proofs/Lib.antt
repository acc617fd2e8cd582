mod Bare
mod Cells
mod Counting
mod Entering
pub mod Noting
mod Within
