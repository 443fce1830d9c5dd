pub mod Limits
pub mod Records
pub mod Rooms
pub mod Promises
