pub mod EdgeBatch
pub mod BatchProgress
pub mod Extension
pub mod Elements
pub mod NewNode
pub mod Parents
