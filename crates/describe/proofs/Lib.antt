pub mod Filling
pub mod Units
pub mod Writing
pub mod Reading
