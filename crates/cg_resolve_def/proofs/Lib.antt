pub mod ByteOrder
pub mod Cases
pub mod Examples
pub mod Faultless
pub mod PartNames
pub mod Solved
pub mod TypesCounted
