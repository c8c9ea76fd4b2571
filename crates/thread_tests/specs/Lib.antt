pub mod Diary
pub mod Laws
pub mod Scenes
