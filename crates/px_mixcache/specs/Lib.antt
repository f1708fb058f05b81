pub mod Cache
pub mod Run
pub mod Packing
