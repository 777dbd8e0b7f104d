pub mod Areas
pub mod Factors
pub mod Clauses
