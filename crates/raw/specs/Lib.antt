pub mod Lengths
pub mod Raw
pub mod Lawful
