pub mod Draws
pub mod Moves
pub mod Lines
pub mod Course
pub mod Schedule
