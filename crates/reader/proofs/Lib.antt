pub mod Listed
pub mod Places
pub mod Ranges
pub mod Accepted
pub mod Filled
pub mod Peeled
pub mod ReadBack
pub mod Found
