pub mod SoftKeywords
pub mod Promises
