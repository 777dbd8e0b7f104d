pub mod Tests
pub mod Number
pub mod Joined
pub mod Starts
pub mod Frames
pub mod Each
pub mod Held
pub mod Filled
