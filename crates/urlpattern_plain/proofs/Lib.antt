pub mod PatternJsonExamples
pub mod ItemLemmas
pub mod PatternLemmas
pub mod PatternRoundTrip
pub mod CopiedPatterns
