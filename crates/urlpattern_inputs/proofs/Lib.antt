pub mod InputJsonExamples
pub mod TreeLemmas
pub mod EachLemmas
pub mod InitLemmas
pub mod RoundTrip
