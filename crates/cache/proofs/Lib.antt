pub mod SlotFacts
pub mod CacheFacts
pub mod KeptLate
pub mod OnceFacts
