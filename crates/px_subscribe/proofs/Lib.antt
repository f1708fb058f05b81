pub mod WhatBecame
mod Walked
mod Entries
pub mod Unchanged
pub mod Deaf
mod Parts
mod Made
