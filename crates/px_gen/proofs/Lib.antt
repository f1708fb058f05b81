pub mod Sizes
pub mod Loops
pub mod Fitting
pub mod Written
pub mod Gathering
pub mod Counted
