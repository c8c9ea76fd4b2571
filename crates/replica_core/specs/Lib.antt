pub mod Serving
pub mod Cleanups
