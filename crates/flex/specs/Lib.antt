pub mod Statuses
pub mod Geometries
pub mod Units
pub mod Maps
