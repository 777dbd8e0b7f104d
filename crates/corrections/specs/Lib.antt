pub mod Corrections
pub mod Clauses
pub mod Replaced
