pub mod MemoryHost
pub mod SharedLink
pub mod HostLink
