pub mod Faults
pub mod ErrorCode
pub mod Status
