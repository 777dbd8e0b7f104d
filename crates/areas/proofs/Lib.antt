pub mod Values
pub mod Faultless
pub mod Within
pub mod FactorLaws
