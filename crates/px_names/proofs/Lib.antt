pub mod Changes
pub mod Listed
pub mod Visible
pub mod Halved
