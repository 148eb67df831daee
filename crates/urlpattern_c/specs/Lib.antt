pub mod Handles
pub mod Memory
pub mod PolicyReturns
pub mod Returns
pub mod RouterReturns
pub mod TextReturns
