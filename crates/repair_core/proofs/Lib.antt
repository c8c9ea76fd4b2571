pub mod RepairLemmas
pub mod RunLemmas
pub mod CountedLemmas
