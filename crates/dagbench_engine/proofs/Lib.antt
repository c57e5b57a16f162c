pub mod GivenSoFar
pub mod Runs
pub mod ServedSoFar
pub mod AnswersAtOnce
pub mod NoFloats
pub mod Documents
pub mod PlanText
