pub mod Rounds
pub mod Promises
