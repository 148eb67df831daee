pub mod Eight
pub mod NamedValues
