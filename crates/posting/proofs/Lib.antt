pub mod SoundAgain
pub mod PostSteps
pub mod PostTurns
pub mod Paying
pub mod PostedBytes
pub mod NextPart
