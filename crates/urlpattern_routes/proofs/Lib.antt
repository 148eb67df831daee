pub mod ConditionLemmas
pub mod ReadingExamples
pub mod RoundTrip
pub mod WritingLemmas
