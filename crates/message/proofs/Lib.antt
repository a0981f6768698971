pub mod Arranging
pub mod Bounds
pub mod Cases
pub mod Completing
pub mod Laws
pub mod Reading
pub mod Scanning
pub mod Walking
