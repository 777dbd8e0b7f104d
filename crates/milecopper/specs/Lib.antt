pub mod Clauses
pub mod Tariffs
