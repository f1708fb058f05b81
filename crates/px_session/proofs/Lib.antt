pub mod Added
pub mod Buffer
pub mod More
pub mod Steps
pub mod Steady
pub mod SteadySession
pub mod StepLaws
pub mod LastByte
pub mod FieldLaws
pub mod HeaderLaws
mod HeaderRest
pub mod SinkLaws
pub mod MapLemmas
pub mod EventLaws
pub mod SessionLaws
pub mod Answered
pub mod FinalLaws
