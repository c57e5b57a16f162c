pub mod Sorting
pub mod Work
pub mod Room
pub mod Reversed
