pub mod Runs
pub mod Windows
pub mod Guards
