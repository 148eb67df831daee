pub mod Values
pub mod PatternJson
pub mod Plain
