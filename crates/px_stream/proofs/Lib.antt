pub mod Sounds
pub mod Runs
pub mod Keeping
pub mod Writing
pub mod Reading
pub mod Sounding
mod Halves
