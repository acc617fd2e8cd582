pub mod Pass
pub mod NormalForm
pub mod Kept
pub mod Uses
