mod BracketLemmas
pub mod NameLemmas
mod TokenFaultLemmas
pub mod PlaceExamples
pub mod RunLemmas
pub mod PartExamples
