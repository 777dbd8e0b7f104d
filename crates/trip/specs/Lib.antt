pub mod Record
pub mod Moments
pub mod Trips
pub mod Conditions
pub mod Clauses
pub mod OneDate
