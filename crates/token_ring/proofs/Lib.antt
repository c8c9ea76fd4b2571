pub mod Offsets
pub mod Tokens
