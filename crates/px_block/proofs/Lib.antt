pub mod PackedLemmas
pub mod Giving
pub mod Counting
