pub mod Kinds
pub mod Brackets
pub mod Codes
