pub mod Masters
pub mod Sized
pub mod Compares
