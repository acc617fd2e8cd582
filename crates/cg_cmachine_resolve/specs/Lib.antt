pub mod Indexes
pub mod Lines
pub mod Queues
pub mod Resolutions
pub mod Scopes
pub mod Variables
