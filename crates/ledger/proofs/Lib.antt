pub mod WordLaws
pub mod SoundLaws
pub mod WindowLaws
pub mod Counting
pub mod BookWords
pub mod GapLaws
pub mod ZeroLaws
