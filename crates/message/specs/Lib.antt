pub mod Commands
pub mod Messages
pub mod Operands
pub mod Decoding
pub mod Drafts
pub mod Arrangements
