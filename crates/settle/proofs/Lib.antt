pub mod Ways
pub mod Parts
pub mod Clear
pub mod Legs
pub mod Turns
pub mod Postings
pub mod Answers
pub mod Steps
