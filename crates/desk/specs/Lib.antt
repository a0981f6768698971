pub mod Answers
pub mod Desks
pub mod Fits
pub mod Worlds
