pub mod Components
pub mod Heads
pub mod Known
pub mod Missing
pub mod Says
pub mod Views
