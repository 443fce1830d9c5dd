pub mod Calls
pub mod AllowedCalls
