pub mod HeldLemmas
pub mod VolumeLemmas
