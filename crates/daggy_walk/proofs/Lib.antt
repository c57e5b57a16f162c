pub mod RecursiveSteps
pub mod AdapterSteps
