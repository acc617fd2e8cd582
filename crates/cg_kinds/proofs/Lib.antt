pub mod BangSteps
pub mod KindSteps
pub mod Laws
pub mod ShapeLaws
pub mod ShapeSteps
pub mod SubstSteps
pub mod BangKinds
