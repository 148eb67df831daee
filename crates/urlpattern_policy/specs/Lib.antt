pub mod Decisions
pub mod DecisionWords
pub mod PlainPatterns
pub mod PolicyWords
pub mod Spellings
