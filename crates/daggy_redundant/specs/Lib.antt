pub mod Comparison
pub mod Closure
pub mod Flags
pub mod KeptRoom
