pub mod Declared
pub mod Growth
pub mod Hosts
pub mod Layers
pub mod Numbers
pub mod Plains
pub mod Rows
pub mod Visits
mod ArrowSteps
mod HintSteps
mod InstanceSteps
mod KeySteps
