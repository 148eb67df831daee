pub mod Compiled
pub mod CompilerSteps
pub mod Diagnoses
pub mod FromString
pub mod KeptComponents
pub mod PatternViews
pub mod Sources
