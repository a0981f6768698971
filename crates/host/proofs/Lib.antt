pub mod Below
pub mod Settling
