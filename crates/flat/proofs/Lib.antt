pub mod OneBit
pub mod FlatBlocks
pub mod Told
