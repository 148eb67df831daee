pub mod Explained
pub mod Noted
pub mod Explanations
pub mod Outcomes
pub mod ComponentPlaces
pub mod GivenWords
pub mod LinkAnswers
