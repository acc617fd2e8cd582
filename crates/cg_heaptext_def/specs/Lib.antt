pub mod Footprints
pub mod Grammar
pub mod HeapText
pub mod Placed
pub mod Reading
pub mod Small
pub mod Tokens
pub mod Trees
