pub mod Modes
pub mod Answers
pub mod Promises
