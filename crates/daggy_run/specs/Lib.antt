pub mod EdgeLists
pub mod Steps
pub mod Runs
pub mod Plans
pub mod Levels
