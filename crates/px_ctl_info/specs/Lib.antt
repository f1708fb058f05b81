pub mod Properties
pub mod Removed
pub mod Clients
pub mod Sinks
pub mod Lists
pub mod Infos
