pub mod Number
pub mod Frame
pub mod Each
pub mod Writer
