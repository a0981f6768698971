pub mod Counts
pub mod Faults
pub mod Blocks
pub mod Each
pub mod Laws
