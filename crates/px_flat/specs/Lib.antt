pub mod Channels
pub mod Member
pub mod FlatVolume
pub mod Keeps
pub mod Inputs
