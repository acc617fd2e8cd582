pub mod ExprSteps
pub mod GoesOn
pub mod GraphSteps
pub mod PatternSteps
pub mod PositionSteps
pub mod Pushed
pub mod Same
pub mod TypeSteps
