pub mod Examples
pub mod Keeping
