pub mod Bodies
pub mod CursorTexts
pub mod GivenNames
pub mod Lexemes
pub mod PartLists
pub mod Readers
