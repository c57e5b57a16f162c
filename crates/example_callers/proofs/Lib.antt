pub mod ClearedWeights
pub mod Reweighed
pub mod TextsKept
pub mod Texts
