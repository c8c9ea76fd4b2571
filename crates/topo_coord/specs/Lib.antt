pub mod Rules
pub mod Topo
