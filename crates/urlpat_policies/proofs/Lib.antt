pub mod DecisionLemmas
pub mod FileLemmas
