pub mod Links
pub mod Raw
pub mod Fields
pub mod Cells
pub mod Referring
pub mod Rest
