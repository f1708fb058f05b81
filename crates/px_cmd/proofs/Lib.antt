pub mod Sequence
pub mod KeyList
pub mod Whole
pub mod Again
pub mod Found
pub mod Meant
