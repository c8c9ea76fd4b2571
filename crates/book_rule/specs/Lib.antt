pub mod World
pub mod Notes
pub mod Turns
pub mod Pins
pub mod Seats
pub mod Steps
