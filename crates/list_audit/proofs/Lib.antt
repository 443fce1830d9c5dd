pub mod Determined
pub mod Arrays
