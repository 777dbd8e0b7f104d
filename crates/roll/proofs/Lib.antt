pub mod Fresh
pub mod Starts
pub mod Outcomes
pub mod Pieces
pub mod WrongKinds
