pub mod Decimal
pub mod Puts
pub mod Values
pub mod Split
pub mod Zeros
