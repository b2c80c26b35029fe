pub mod Steps
pub mod Following
pub mod Ending
