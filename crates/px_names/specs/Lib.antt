pub mod Sinks
pub mod Clients
pub mod InputLists
pub mod Source
pub mod Names
