pub mod Apps
pub mod Matches
pub mod Views
pub mod Words
