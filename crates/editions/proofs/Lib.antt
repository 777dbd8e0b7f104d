pub mod OpeningLaws
pub mod Ways
pub mod FileLaws
pub mod Parts
pub mod InForceLaws
pub mod Lengths
pub mod Cases
pub mod Places
