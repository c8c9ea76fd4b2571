pub mod PlayLemmas
pub mod TraceLemmas
