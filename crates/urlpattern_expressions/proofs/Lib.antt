pub mod SimpleLemmas
pub mod ShapeTexts
pub mod SameLanguages
pub mod RepeatedShapes
pub mod HirTrees
pub mod PartShapes
pub mod ShapeExamples
