pub mod Ranges
pub mod Tables
pub mod Classes
pub mod Promises
