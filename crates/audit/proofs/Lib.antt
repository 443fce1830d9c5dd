pub mod Stacks
pub mod Determined
pub mod Codes
pub mod Stricter
