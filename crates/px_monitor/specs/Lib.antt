pub mod Command
pub mod Records
pub mod Create
pub mod Fragments
pub mod Monitor
pub mod Run
pub mod MonitorOutcome
