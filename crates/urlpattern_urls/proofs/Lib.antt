pub mod CommonUrlLemmas
pub mod ReachLemmas
pub mod UnlikeLemmas
