pub mod Each
pub mod Naming
pub mod Passed
pub mod Joined
