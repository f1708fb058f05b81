pub mod Volume
pub mod Held
