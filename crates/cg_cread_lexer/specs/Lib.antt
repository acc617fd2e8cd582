pub mod Front
pub mod Next
pub mod Laws
