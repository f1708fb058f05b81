pub mod Front
pub mod Info
pub mod Message
