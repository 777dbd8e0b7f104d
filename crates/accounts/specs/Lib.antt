pub mod Clauses
pub mod Associations
pub mod Lent
pub mod Calls
pub mod Sharing
pub mod InWords
pub mod Members
