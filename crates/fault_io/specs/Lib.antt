pub mod Counts
pub mod Given
pub mod Memory
pub mod Real
pub mod Written
