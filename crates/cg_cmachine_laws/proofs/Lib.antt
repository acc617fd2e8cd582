pub mod BuiltIns
pub mod Depth
pub mod LayoutLaws
pub mod Names
pub mod NeverAstray
pub mod Rows
pub mod Flows
