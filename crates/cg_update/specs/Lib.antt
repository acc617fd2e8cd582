pub mod Calls
pub mod Laws
pub mod Machines
pub mod Outcomes
pub mod Turns
pub mod Updates
pub mod Among
