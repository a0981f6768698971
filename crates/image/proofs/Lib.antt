pub mod Numbered
pub mod Parts
pub mod Calls
