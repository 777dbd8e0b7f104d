pub mod Ceiling
pub mod Clauses
