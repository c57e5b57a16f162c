pub mod MatrixRows
pub mod UnitedWords
pub mod ListCursors
pub mod WalkedEdges
