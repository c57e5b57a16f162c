pub mod Listed
pub mod Endpoints
pub mod Nodes
