pub mod BytesLemmas
pub mod CompandedLemmas
pub mod FormatLemmas
pub mod LawLemmas
pub mod RunLemmas
pub mod WidthLemmas
pub mod WorkValuesLemmas
