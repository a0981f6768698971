pub mod Lengths
pub mod Flat
pub mod Lawful
