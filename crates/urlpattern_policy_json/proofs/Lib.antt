pub mod ReadingExamples
pub mod RoundTrip
pub mod TreeLemmas
