pub mod Calling
pub mod Creating
pub mod Prefixes
pub mod Rooms
pub mod Structs
