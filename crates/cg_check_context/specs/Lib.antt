pub mod Ended
pub mod Observed
pub mod View
