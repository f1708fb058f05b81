mod NumberLaws
mod Counting
mod Reading
