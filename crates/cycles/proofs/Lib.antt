pub mod BicycleLaws
pub mod CoverLaws
pub mod InWords
