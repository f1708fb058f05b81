pub mod Clip
pub mod Kernel
