pub mod Tables
pub mod Sums
pub mod Turns
pub mod Runs
pub mod Blocks
pub mod Finding
pub mod Shown
pub mod Typed
mod Examples
