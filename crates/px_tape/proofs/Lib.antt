mod Counts
mod Faults
mod Written
mod Sinks
