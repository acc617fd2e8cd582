pub mod BareSteps
