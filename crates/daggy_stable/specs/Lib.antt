pub mod Stored
pub mod Held
pub mod Lends
pub mod Building
pub mod Ordering
pub mod FullSlots
pub mod Rest
