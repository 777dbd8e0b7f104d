pub mod Moves
pub mod Pieces
pub mod Printed
pub mod Steps
