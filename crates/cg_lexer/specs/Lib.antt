pub mod Bytes
pub mod Numbers
pub mod Gaps
pub mod Tokens
pub mod Front
pub mod Next
pub mod Laws
