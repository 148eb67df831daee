pub mod Fetches
pub mod Patterns
pub mod Compiling
pub mod Adding
pub mod FaultWords
