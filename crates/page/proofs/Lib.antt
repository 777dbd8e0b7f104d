pub mod Replacing
pub mod Lowest
pub mod Conditions
pub mod Touching
