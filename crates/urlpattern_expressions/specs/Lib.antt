pub mod Expressions
pub mod SimpleExpressions
pub mod MatchedPartTexts
pub mod PartCaptures
pub mod PartWays
pub mod PartsFirst
pub mod Shapes
