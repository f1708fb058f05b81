pub mod WordLaws
pub mod LineLaws
pub mod SummaryLaws
pub mod FrontLaws
pub mod ModeLaws
pub mod MonitorLaws
pub mod SampleLaws
pub mod RampLaws
pub mod ReadLaws
pub mod BeginLaws
pub mod RefuseLaws
pub mod RecordLaws
pub mod ViewLaws
pub mod EventPlayedLaws
pub mod PlayLaws
pub mod FlushLaws
pub mod ReportLaws
pub mod CompleteLaws
pub mod PlayedLaws
pub mod ReplayLaws
pub mod ConvertLaws
pub mod ControlLaws
pub mod RunLaws
pub mod EitherLaws
pub mod FinalLaws
mod HeaderLaws
mod BackLaws
mod ServeLaws
pub mod ServeRows
pub mod Links
pub mod ServeSteps
pub mod Plainly
pub mod Required
pub mod Texts
pub mod ServeReading
pub mod FineLaws
