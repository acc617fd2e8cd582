pub mod Added
pub mod Marks
pub mod Noted
pub mod Parted
pub mod Uses
