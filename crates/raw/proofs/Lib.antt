pub mod Records
pub mod RawBlocks
pub mod Told
