pub mod Facts
pub mod Heard
