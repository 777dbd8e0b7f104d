pub mod Salvage
pub mod Right
pub mod Clauses
