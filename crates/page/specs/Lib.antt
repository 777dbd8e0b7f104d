pub mod Clauses
pub mod Pages
pub mod InWords
