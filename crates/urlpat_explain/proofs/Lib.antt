pub mod NotedLemmas
pub mod ComponentPlaceLemmas
mod NotedExamples
pub mod GivenWordLemmas
