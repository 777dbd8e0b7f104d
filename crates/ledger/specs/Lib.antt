pub mod Words
pub mod Sound
pub mod Windows
pub mod Clauses
