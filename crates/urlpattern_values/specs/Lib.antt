pub mod EncodedValues
pub mod LawsOfValues
