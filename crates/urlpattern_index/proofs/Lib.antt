pub mod IndexGroupLemmas
pub mod KnownLemmas
pub mod NumberLemmas
pub mod PathSegmentLemmas
pub mod PlainLemmas
