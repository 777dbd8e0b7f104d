pub mod Clauses
pub mod Prices
