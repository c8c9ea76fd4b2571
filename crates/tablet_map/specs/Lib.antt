pub mod Replicas
pub mod Tablets
pub mod Calls
pub mod Sets
