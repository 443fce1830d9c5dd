pub mod Notes
pub mod Agree
pub mod Steps
pub mod Neat
pub mod Theorem
pub mod Doors
