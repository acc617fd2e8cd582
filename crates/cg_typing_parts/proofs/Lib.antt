pub mod AskedSteps
pub mod FormSteps
pub mod LibrarySteps
pub mod MarkSteps
pub mod NamedSteps
pub mod RecordSteps
