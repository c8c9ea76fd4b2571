pub mod Numerals
pub mod PlaceLaws
pub mod ShapeLaws
pub mod LineLaws
pub mod CutLemmas
pub mod WordLaws
pub mod TextLaws
pub mod TellLaws
