pub mod Hosts
pub mod Waits
pub mod Messages
pub mod Progress
