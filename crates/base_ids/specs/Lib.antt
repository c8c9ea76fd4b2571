pub mod Names
pub mod Outcomes
pub mod Replicas
pub mod Rules
