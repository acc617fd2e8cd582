pub mod Bodies
pub mod Forms
pub mod Judged
pub mod Operators
pub mod Standings
