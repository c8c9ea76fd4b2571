pub mod Repaired
pub mod Monotone
pub mod Notes
pub mod Lists
pub mod Kept
