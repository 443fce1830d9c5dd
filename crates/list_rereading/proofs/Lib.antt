pub mod Doors
pub mod Keeps
pub mod Determined
