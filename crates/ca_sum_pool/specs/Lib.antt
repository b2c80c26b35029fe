pub mod Rounded
pub mod Parts
