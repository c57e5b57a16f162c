pub mod Escapes
pub mod Picture
pub mod Values
