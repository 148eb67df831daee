pub mod GivenBytes
pub mod GivenLinks
pub mod GivenTexts
