pub mod Joined
pub mod KeptEdges
pub mod FoldedEdges
pub mod FoldingAll
