mod Accepting
mod Going
pub mod Later
mod Joining
pub mod Empty
