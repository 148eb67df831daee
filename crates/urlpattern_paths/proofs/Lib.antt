pub mod PathAloneLemmas
pub mod PathExamples
pub mod PathLaws
pub mod PathMatchers
pub mod TemplateLemmas
