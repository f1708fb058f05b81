pub mod First
pub mod ByStream
