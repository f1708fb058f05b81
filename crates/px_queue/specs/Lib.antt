pub mod Pieces
pub mod Laid
pub mod Framed
pub mod HeldQueue
pub mod Pushed
pub mod Peeked
pub mod Plain
pub mod Heard
