pub mod Records
pub mod Cuts
pub mod Pieces
pub mod Texts
pub mod Passes
