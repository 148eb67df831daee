pub mod MatchTextExamples
pub mod GroupNames
pub mod MatchLemmas
pub mod MatchJsonLemmas
pub mod GroupNameLemmas
pub mod LineReadingLemmas
pub mod LineAnswerLemmas
pub mod EntryLemmas
mod TableExamples
mod LabelExamples
