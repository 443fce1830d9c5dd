pub mod BlankLaws
pub mod Compares
pub mod LevelLaws
pub mod Bounds
pub mod Local
pub mod NoteLaws
pub mod NoteSteps
