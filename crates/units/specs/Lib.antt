pub mod Caps
pub mod Day
pub mod Price
pub mod Rounding
pub mod Levels
pub mod Plane
