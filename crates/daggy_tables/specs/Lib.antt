pub mod Left
pub mod ReadBack
pub mod Reading
pub mod Rows
pub mod Stops
pub mod Tables
