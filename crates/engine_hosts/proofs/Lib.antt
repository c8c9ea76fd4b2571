pub mod NoteLemmas
pub mod WayLemmas
pub mod TurnLemmas
pub mod TakeLemmas
pub mod LogLemmas
