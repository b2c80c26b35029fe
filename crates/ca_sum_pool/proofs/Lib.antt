pub mod Totals
pub mod Begun
pub mod Tasks
pub mod Did
pub mod Wholes
pub mod Steps
pub mod Joins
pub mod Sends
pub mod Waiting
pub mod Alone
pub mod Whole
mod Examples
