pub mod RowLemmas
pub mod TableRuleLemmas
pub mod FirstRuleLemmas
mod TableExamples
pub mod EndlessLemmas
pub mod CheckLemmas
pub mod FilterPatternLemmas
pub mod ListLemmas
pub mod FieldLemmas
pub mod NeededLemmas
pub mod SummaryLemmas
pub mod AutomataLemmas
pub mod LabelLemmas
pub mod TakenLemmas
pub mod SecondLemmas
pub mod RouteLemmas
pub mod RewriteLemmas
