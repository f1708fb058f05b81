pub mod ByChannel
pub mod Found
pub mod EachOne
pub mod Preserved
pub mod Volumes
pub mod TrueTo
pub mod Same
pub mod Inputs
