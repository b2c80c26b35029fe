pub mod Index
pub mod Shadows
