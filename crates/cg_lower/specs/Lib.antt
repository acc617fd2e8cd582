pub mod Laws
pub mod Lowerings
pub mod Programs
pub mod Promises
pub mod Collected
pub mod Copies
pub mod Calls
pub mod Results
