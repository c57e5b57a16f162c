pub mod Visit
pub mod United
