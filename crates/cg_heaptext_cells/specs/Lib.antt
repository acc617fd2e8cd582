pub mod ByKind
pub mod Cells
pub mod Lists
pub mod Numbers
pub mod Pieces
