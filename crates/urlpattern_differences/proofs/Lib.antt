pub mod DecidedLemmas
pub mod ExcessLemmas
pub mod WrittenLemmas
pub mod SharedLemmas
