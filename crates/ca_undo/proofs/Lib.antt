pub mod Back
pub mod Moved
mod Marking
mod OldsExamples
pub mod Restoring
