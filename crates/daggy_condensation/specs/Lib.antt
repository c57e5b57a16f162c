pub mod Between
pub mod Folding
pub mod Replacing
