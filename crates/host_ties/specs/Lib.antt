pub mod HostTies
pub mod HostRules
