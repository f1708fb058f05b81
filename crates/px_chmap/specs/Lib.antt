pub mod ChannelMap
pub mod Held
pub mod Plan
