pub mod Texts
pub mod Clauses
pub mod Fours
