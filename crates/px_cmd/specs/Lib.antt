pub mod Field
pub mod Table
pub mod Command
pub mod Packet
pub mod Create
pub mod Law
pub mod Meant
