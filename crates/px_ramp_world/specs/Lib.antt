pub mod World
pub mod Event
pub mod Output
pub mod History
pub mod Running
pub mod Playing
pub mod Parts
pub mod Plain
