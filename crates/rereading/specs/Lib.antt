pub mod Rereads
pub mod Promises
