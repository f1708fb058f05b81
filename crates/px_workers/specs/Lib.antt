pub mod Hosted
pub mod Accepting
pub mod Working
pub mod Jobs
