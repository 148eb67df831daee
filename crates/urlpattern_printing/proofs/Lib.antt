pub mod NameLists
pub mod OutcomeLemmas
pub mod PrintedTexts
pub mod RegexpTexts
