pub mod CompileLemmas
pub mod FetchLemmas
pub mod PatternLemmas
pub mod RuleExamples
