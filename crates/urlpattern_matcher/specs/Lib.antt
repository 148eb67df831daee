pub mod Components
pub mod Regexes
pub mod FirstWays
pub mod Looks
pub mod Matchers
