pub mod RunSteps
pub mod OneAnswer
pub mod ListedNeighbors
pub mod EdgesFromVec
pub mod RaisedNodes
pub mod StagedNodes
pub mod PlanByLevels
