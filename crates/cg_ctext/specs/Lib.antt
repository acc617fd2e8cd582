pub mod Printed
pub mod Signs
pub mod Waiting
