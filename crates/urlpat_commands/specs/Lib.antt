pub mod CommandAnswers
pub mod ComponentAnswers
pub mod FirstJson
pub mod ComparisonTexts
pub mod Coverings
