pub mod TurnLemmas
pub mod ReadyLemmas
pub mod PinLemmas
