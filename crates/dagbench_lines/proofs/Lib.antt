pub mod Cuts
pub mod Digits
pub mod KeptFront
pub mod Listed
pub mod WrittenBytes
mod Units
pub mod ListedNodes
pub mod ParsedLines
