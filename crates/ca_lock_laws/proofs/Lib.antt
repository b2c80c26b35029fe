mod Clean
mod Keeping
pub mod Kept
pub mod Paired
pub mod Taken
mod Examples
