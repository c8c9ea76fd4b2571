pub mod Passed
pub mod Pulls
pub mod Took
