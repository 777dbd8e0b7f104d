pub mod Clauses
pub mod Blocks
pub mod AreaRuns
pub mod FactorRuns
pub mod Halts
