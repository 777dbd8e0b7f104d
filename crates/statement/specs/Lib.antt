pub mod Record
pub mod Kind4
pub mod Reading
pub mod Clauses
