pub mod PlanLemmas
mod JudgedLemmas
