pub mod EightLemmas
