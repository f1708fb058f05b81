pub mod Channels
pub mod Each
pub mod Gone
pub mod Part
pub mod Stretches
mod StereoFrames
