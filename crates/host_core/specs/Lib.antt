pub mod Pulls
pub mod Host
pub mod Groups
pub mod Ready
