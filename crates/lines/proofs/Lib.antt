pub mod Puts
pub mod Taken
pub mod Rest
pub mod Told
pub mod Example
