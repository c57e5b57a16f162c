pub mod Parts
pub mod Operators
pub mod Common
pub mod Closure
pub mod SimplePaths
pub mod Merging
pub mod Children
pub mod SortedChildren
