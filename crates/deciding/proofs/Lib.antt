pub mod Rows
pub mod Rides
pub mod RowGroups
pub mod Decisions
