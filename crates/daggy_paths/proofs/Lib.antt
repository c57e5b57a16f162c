pub mod SameStates
pub mod EdgesAlong
