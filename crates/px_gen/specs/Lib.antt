pub mod Numbers
pub mod Client
pub mod Generator
pub mod Writing
