pub mod LiveLemmas
