pub mod Days
pub mod Stamps
pub mod Moments
pub mod Clauses
