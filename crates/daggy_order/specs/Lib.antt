pub mod Links
pub mod Paths
