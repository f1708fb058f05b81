mod Fronts
mod Meant
mod Replayed
mod Sent
mod Moves
mod Whole
mod Told
