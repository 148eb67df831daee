pub mod BaseUrlLemmas
pub mod CanonicalLemmas
pub mod SettingLemmas
pub mod MarkLemmas
pub mod SchemeLemmas
