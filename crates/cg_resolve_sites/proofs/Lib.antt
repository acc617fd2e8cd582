pub mod FrameLaws
pub mod PatternSteps
pub mod ScopeSteps
pub mod SiteLaws
pub mod StandLaws
