pub mod Runs
pub mod Clauses
pub mod Pieces
pub mod Flows
