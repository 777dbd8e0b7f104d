pub mod Places
pub mod PlaceLaws
pub mod Wide
pub mod WrongValues
pub mod Entries
pub mod Turns
pub mod FaultlessUntil
