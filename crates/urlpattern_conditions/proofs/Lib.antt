pub mod ConditionExamples
pub mod ConditionLemmas
pub mod TableLemmas
