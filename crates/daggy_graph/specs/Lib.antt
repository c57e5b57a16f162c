pub mod Stored
pub mod Lends
pub mod Names
pub mod Cursors
