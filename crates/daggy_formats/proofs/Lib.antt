pub mod Edges
pub mod Escaping
pub mod Lines
