pub mod FoundLemmas
pub mod SessionLemmas
pub mod RuleLemmas
pub mod TopoTies
