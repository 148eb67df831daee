pub mod ByteLemmas
pub mod SetTests
pub mod ValueLemmas
pub mod ValueExamples
