pub mod Audits
pub mod Apart
pub mod Promises
