pub mod Lists
pub mod Inputs
pub mod InputTable
pub mod Connections
