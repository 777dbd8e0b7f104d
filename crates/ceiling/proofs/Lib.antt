pub mod Kept
pub mod Months
pub mod Trips
pub mod Outcomes
