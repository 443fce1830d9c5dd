pub mod Bytes
pub mod Laid
pub mod LineStarts
pub mod Steps
pub mod Readings
pub mod Papers
pub mod NonLogicals
pub mod Doors
