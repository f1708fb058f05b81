pub mod Asked
pub mod Factors
pub mod Sinks
pub mod Inputs
