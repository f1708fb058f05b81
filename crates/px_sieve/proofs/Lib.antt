pub mod Cutting
pub mod Hearing
pub mod Lines
pub mod Resting
pub mod Scenes
pub mod Adding
pub mod Shifting
