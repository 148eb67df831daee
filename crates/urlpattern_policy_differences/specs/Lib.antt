pub mod AlikeDecisions
pub mod Comparing
