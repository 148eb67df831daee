pub mod FixedTexts
pub mod Keys
pub mod Known
pub mod Listed
pub mod Paths
pub mod PlainPaths
pub mod Segments
