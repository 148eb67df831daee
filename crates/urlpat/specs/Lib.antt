pub mod Commands
pub mod Outputs
