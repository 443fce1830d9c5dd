pub mod Clear
pub mod Alike
