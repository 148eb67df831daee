pub mod AnswerExamples
pub mod CommandAnswerLemmas
pub mod FirstCommandLemmas
pub mod CommandNoteLemmas
pub mod ComparisonLemmas
