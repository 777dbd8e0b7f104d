pub mod Outcome
pub mod Posting
pub mod Clauses
pub mod Runs
pub mod Steps
