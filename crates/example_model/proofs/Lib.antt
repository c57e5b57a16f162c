pub mod Checks
pub mod Paths
pub mod Reductions
pub mod Rounds
