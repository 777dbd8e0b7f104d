pub mod Bicycles
pub mod Clauses
pub mod InWords
