pub mod Notes
pub mod Tiles
pub mod NonLogical
