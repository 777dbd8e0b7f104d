pub mod Text
pub mod Turns
pub mod Clauses
pub mod Short
