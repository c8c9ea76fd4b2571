pub mod ChunkLemmas
pub mod PassedLemmas
