pub mod Command
pub mod Uploads
pub mod Cache
pub mod Play
pub mod Answers
