pub mod Laws
pub mod LibraryLaws
pub mod StepLaws
