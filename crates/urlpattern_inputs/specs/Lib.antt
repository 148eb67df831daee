pub mod InputValues
pub mod Trees
pub mod InputJson
pub mod ReadResults
