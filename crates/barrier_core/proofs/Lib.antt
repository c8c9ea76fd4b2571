pub mod FactLemmas
