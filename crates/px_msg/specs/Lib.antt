pub mod Repair
pub mod View
pub mod Letters
pub mod Parcels
