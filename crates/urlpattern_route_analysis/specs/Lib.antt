pub mod Formulas
pub mod Cases
pub mod CasePatterns
pub mod Naming
pub mod Deciding
pub mod Making
pub mod Scopes
pub mod EngineDecisions
