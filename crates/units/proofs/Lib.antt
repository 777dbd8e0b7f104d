pub mod Caps
pub mod Rounding
pub mod LevelCaps
