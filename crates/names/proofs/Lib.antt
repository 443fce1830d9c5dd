pub mod Laws
pub mod Packing
pub mod Shapes
pub mod Bounds
pub mod Names
pub mod Local
pub mod Lines
