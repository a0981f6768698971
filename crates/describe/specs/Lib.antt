pub mod Descriptions
pub mod Readers
