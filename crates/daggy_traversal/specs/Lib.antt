pub mod Traversal
pub mod Breadth
pub mod Depth
pub mod OldestFirst
pub mod Postorder
pub mod Fused
pub mod Reweighed
