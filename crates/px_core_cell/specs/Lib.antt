pub mod Boxes
pub mod Parcel
pub mod Plain
pub mod Cause
pub mod Cell
pub mod History
pub mod Step
pub mod Seat
