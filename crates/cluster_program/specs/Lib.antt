pub mod Status
pub mod Texts
pub mod Endings
pub mod Readings
pub mod Outcomes
pub mod Program
pub mod OneEnding
