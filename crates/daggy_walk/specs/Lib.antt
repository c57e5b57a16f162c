pub mod Adapters
pub mod Ends
pub mod Fused
pub mod Leading
pub mod Parts
pub mod Walking
