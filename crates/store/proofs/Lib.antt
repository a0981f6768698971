pub mod Nth
pub mod Writes
