pub mod CompileLemmas
pub mod FirstMatchers
pub mod EngineLemmas
pub mod FoldedEnds
pub mod MatcherTexts
pub mod MatcherResults
pub mod StrippedMatchers
