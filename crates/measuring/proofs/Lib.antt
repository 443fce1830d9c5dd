pub mod Lines
pub mod NoteCounts
pub mod Texts
