pub mod Near
pub mod Fix
pub mod Weights
pub mod Putting
pub mod Examples
mod CommutingExamples
mod AgreeExamples
