pub mod Ring
pub mod Range
