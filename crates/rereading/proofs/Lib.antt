pub mod Cuts
pub mod Effects
pub mod Rebuilds
pub mod Plans
pub mod Keeps
pub mod Determined
pub mod Codes
