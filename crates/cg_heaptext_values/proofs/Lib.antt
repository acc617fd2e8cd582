pub mod Bares
pub mod Depths
pub mod Going
pub mod Heads
pub mod Loops
pub mod Passing
pub mod Takes
