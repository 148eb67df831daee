pub mod GivenByteLemmas
