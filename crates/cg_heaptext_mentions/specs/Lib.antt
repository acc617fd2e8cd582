pub mod Judged
pub mod Scans
pub mod Steps
