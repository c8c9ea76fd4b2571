pub mod Planned
pub mod Lines
