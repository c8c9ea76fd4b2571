pub mod Inputs
pub mod Steps
pub mod Coordinators
pub mod Hosts
