pub mod Packed
pub mod HeldBlock
pub mod Given
pub mod Shelved
