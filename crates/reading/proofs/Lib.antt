pub mod Finishes
pub mod Calls
pub mod Determined
pub mod Faults
pub mod Measures
pub mod Refusals
pub mod Codes
