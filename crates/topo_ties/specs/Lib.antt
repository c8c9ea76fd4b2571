pub mod TopoTies
