pub mod Meaning
pub mod History
pub mod Moved
pub mod Cell
pub mod Turning
