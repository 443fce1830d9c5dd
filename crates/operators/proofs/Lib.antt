pub mod Bounds
pub mod Local
