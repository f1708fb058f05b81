pub mod Own
pub mod Skips
pub mod Answered
pub mod Course
pub mod Sampler
pub mod CacheOutcome
pub mod Run
