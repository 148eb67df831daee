pub mod ResultViews
pub mod GroupTexts
pub mod BorrowedMatches
pub mod DecodedCaptures
pub mod MatchInput
pub mod ResultJson
