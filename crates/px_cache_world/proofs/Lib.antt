pub mod Sizes
pub mod Partly
pub mod Settling
pub mod Handing
pub mod Goes
pub mod Events
pub mod Sieving
pub mod Keeping
