pub mod Components
pub mod Condensation
pub mod Cycles
pub mod Meeting
pub mod Noting
pub mod Stored
pub mod WeakComponents
