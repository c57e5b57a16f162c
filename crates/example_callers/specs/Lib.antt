pub mod Along
pub mod Cursors
pub mod Documents
