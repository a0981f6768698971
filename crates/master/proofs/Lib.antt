pub mod MasterBlocks
pub mod CompareFacts
