pub mod MatchInputLemmas
pub mod MatchGroupLemmas
pub mod NameOrder
pub mod ResultFloats
pub mod ResultJsonLemmas
pub mod TakenLemmas
pub mod CopiedResults
