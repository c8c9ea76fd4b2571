pub mod PullLemmas
pub mod LogLemmas
pub mod HostRules
pub mod HostTies
