pub mod Ranges
pub mod Search
pub mod Parts
pub mod Order
pub mod Subsets
pub mod Sweep
pub mod ContinuationBits
pub mod Laws
