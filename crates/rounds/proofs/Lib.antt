pub mod Margins
pub mod Starts
pub mod Listed
pub mod Fuel
pub mod Paid
pub mod Rests
pub mod Finds
