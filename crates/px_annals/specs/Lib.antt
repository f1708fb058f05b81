pub mod History
pub mod Size
pub mod Memory
