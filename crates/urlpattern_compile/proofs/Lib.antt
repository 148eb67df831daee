pub mod CompiledLemmas
pub mod DiagnosisLemmas
