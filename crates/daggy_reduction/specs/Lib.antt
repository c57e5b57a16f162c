pub mod SearchSpan
pub mod Blocks
pub mod CountedArcs
pub mod AnyWeights
pub mod Spans
pub mod Descendants
