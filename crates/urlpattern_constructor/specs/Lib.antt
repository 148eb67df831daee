pub mod Split
pub mod Splitting
