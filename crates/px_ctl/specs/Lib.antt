pub mod Number
pub mod Words
pub mod End
pub mod Control
