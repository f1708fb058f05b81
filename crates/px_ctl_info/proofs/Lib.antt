pub mod Named
pub mod Sayable
mod Added
mod Halved
pub mod Removed
