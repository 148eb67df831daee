pub mod Inputs
pub mod Quirks
