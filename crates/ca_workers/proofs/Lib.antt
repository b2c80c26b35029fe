pub mod Places
pub mod Quotas
pub mod Steps
pub mod Behind
pub mod Logs
pub mod Going
pub mod ToldOn
pub mod Stored
pub mod Moving
pub mod Beginning
pub mod Parts
pub mod Adding
pub mod Lent
pub mod Back
pub mod InHeap
pub mod Opened
pub mod Splits
mod Examples
