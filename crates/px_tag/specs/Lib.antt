pub mod Place
pub mod PropList
pub mod Item
pub mod Reading
pub mod Law
pub mod Seen
