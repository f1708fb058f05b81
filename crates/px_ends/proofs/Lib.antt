pub mod VisibleBytes
pub mod Filling
pub mod Frames
mod Failing
