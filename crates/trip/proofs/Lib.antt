pub mod Shapes
pub mod Stamps
pub mod OneDate
pub mod Known
pub mod Ranges
pub mod Clear
