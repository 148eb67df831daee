pub mod ClosedTokens
pub mod TokenPlaces
pub mod SeenLemmas
pub mod TextBetween
pub mod SplitLemmas
pub mod UserinfoLemmas
pub mod SplitStarts
