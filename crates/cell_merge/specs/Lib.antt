pub mod Bytes64
pub mod Cell
pub mod Laws
