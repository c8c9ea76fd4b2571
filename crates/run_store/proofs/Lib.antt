pub mod RunLemmas
pub mod GroupLemmas
pub mod ChunkLemmas
pub mod LoopLemmas
pub mod RegroupLemmas
pub mod TabletLemmas
pub mod StoreLemmas
pub mod AdoptLemmas
