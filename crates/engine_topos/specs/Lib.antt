pub mod Notes
pub mod Turns
pub mod Clocks
pub mod Acts
pub mod Deeds
pub mod Courses
pub mod Looks
