pub mod Blanks
pub mod Notes
pub mod Levels
pub mod LevelOrder
pub mod Promises
