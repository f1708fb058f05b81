pub mod Samples
pub mod HeldStream
pub mod Messages
pub mod Values
pub mod Lent
pub mod Plain
pub mod Heard
