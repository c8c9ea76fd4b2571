pub mod RebuildLemmas
pub mod RunLemmas
pub mod TabletLemmas
