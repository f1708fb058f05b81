pub mod Changing
pub mod Clipped
pub mod Fours
pub mod Shares
