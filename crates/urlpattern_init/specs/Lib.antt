pub mod ConstructorString
pub mod Inheritance
pub mod Processing
pub mod SpecialProtocol
pub mod UrlTexts
