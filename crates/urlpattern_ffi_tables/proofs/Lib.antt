mod AllowedLemmas
mod NamedLinkLemmas
mod PolicyLemmas
mod ReachLemmas
mod ReasonLemmas
mod RouteLemmas
mod TableExamples
