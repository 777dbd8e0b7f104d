pub mod Caps
pub mod Charging
pub mod Cuts
pub mod After
pub mod Clauses
pub mod InWords
pub mod Alike
