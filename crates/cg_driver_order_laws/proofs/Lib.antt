pub mod Ordering
mod Building
