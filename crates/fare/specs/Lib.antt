pub mod Distance
pub mod Rides
pub mod Parts
pub mod Towns
pub mod Clauses
