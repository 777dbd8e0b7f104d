pub mod Layout
pub mod Fields
pub mod Rules
pub mod WrongValues
pub mod Scan
pub mod Clauses
