pub mod WindowFacts
pub mod GuardFacts
pub mod Parts
