pub mod Openings
pub mod Bodies
pub mod Bounds
pub mod Local
