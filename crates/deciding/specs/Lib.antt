pub mod Refusals
pub mod Deciding
pub mod Clauses
