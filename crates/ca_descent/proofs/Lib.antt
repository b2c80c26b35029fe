pub mod Examples
pub mod Exact
pub mod Many
pub mod OneAnswer
pub mod Parts
pub mod Separated
pub mod Short
pub mod Whole
