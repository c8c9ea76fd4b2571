pub mod TakenLemmas
pub mod IdleAnswers
