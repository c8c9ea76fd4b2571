pub mod StepLemmas
pub mod TopoLemmas
pub mod HostLemmas
