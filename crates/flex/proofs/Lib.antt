pub mod Cases
pub mod Naming
pub mod Places
pub mod Soundness
