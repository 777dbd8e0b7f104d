pub mod Lines
pub mod Dates
pub mod Readings
pub mod Taken
pub mod Whole
pub mod Example
