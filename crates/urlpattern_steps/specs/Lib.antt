pub mod Walk
pub mod FailedStates
pub mod AddedCaptures
pub mod Table
pub mod ReadSteps
