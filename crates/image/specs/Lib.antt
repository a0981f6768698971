pub mod Refusals
pub mod Memory
pub mod Images
pub mod Lawful
