pub mod Held
pub mod Causes
pub mod Calls
pub mod Failures
pub mod Entries
pub mod Memory
pub mod Cuts
pub mod Torn
