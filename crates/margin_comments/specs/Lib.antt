pub mod Lines
pub mod Moved
pub mod PutIn
