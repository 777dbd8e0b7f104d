pub mod Effects
pub mod Refusing
pub mod Agreeing
pub mod Halves
pub mod Lending
pub mod Members
pub mod Sharing
pub mod Placing
