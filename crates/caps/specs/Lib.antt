pub mod Limits
pub mod Tree
pub mod Rides
pub mod Named
pub mod Clauses
