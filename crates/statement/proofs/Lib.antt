pub mod Head
pub mod Charges
pub mod Wrote
pub mod Sums
pub mod Records
