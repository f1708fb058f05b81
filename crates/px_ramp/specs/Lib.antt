pub mod Ramp
pub mod Table
pub mod RampMix
pub mod Lane
pub mod Deciding
pub mod Rows
