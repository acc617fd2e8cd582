pub mod Cuts
pub mod Faults
mod Firsts
