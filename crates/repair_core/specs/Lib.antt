pub mod Repairs
pub mod Laws
pub mod Counted
