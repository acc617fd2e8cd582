pub mod Ends
pub mod Leaves
