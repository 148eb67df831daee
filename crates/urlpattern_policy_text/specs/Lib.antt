pub mod PolicyJson
pub mod PolicyTexts
pub mod Statements
pub mod WrittenJson
pub mod WrittenPolicies
