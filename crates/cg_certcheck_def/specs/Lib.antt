pub mod Events
pub mod Pass
pub mod Reads
pub mod Tests
