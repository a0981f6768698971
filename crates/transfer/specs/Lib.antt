pub mod Segments
pub mod Reports
pub mod Transfers
pub mod Spans
pub mod Describing
