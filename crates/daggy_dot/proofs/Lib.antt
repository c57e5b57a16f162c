pub mod Gathered
pub mod Marking
pub mod Quoting
pub mod Ranks
