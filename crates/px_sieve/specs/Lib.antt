pub mod Segment
pub mod Piece
pub mod Sieve
pub mod Standing
pub mod Scene
