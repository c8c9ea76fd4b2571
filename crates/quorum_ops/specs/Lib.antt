pub mod Decision
pub mod Follows
pub mod Pending
pub mod Taken
