pub mod Gathers
pub mod Steps
pub mod Laws
pub mod Held
pub mod Ends
pub mod Rounds
pub mod Counts
