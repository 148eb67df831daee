pub mod Generated
pub mod Neighbours
pub mod NormalForms
pub mod WrittenParts
