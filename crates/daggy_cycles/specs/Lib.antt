pub mod CycleEdges
pub mod EdgeWays
pub mod Feedback
pub mod Linking
pub mod Queue
pub mod Shortest
pub mod Trying
pub mod WithPairs
