pub mod Answers
pub mod Certificates
pub mod Laws
pub mod Machine
pub mod Printed
pub mod Texts
pub mod Views
pub mod Words
