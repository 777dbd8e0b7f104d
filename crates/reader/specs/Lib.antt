pub mod Fields
pub mod Ranges
pub mod Reading
pub mod Conditions
pub mod Clauses
pub mod Filling
