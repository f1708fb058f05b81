pub mod Input
pub mod Target
pub mod Outcome
pub mod Handled
pub mod Waiting
