pub mod Prints
pub mod Clauses
