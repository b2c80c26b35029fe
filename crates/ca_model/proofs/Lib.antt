pub mod Stores
pub mod Creation
pub mod Lines
pub mod Parts
pub mod Texts
mod Examples
