mod Examples
mod SweepExamples
pub mod Atoms
pub mod Swept
pub mod Updates
pub mod Kept
pub mod Allowed
pub mod Asked
pub mod Weights
pub mod Powers
pub mod Changes
pub mod Orders
