pub mod Parts
pub mod Gives
pub mod Opens
