pub mod Rebuilds
pub mod Laws
pub mod Tablets
