pub mod Places
pub mod Calls
pub mod Seen
pub mod Handing
pub mod Doing
mod Unseen
pub mod Keeping
pub mod Giving
pub mod Naming
