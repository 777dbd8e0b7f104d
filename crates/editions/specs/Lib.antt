pub mod Openings
pub mod Editions
pub mod Reading
pub mod InWords
