pub mod Event
pub mod Announce
pub mod Infos
pub mod Became
pub mod InfoBytes
pub mod Walk
pub mod Scene
pub mod Moments
