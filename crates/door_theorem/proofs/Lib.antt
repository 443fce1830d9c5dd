pub mod Theorem
pub mod Calls
