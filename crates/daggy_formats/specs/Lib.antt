pub mod Document
pub mod Escapes
pub mod Lines
