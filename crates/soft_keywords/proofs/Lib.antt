pub mod Counts
pub mod LookAheads
pub mod Decides
pub mod Second
pub mod Softens
