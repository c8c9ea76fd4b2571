pub mod Merges
pub mod Parts
pub mod Passes
