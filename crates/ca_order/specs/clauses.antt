pub mod Added
pub mod Gathered
pub mod Classes
pub mod Seen
