pub mod Terms
pub mod Weights
pub mod Measures
pub mod Forms
pub mod Meanings
pub mod Environments
pub mod Valuations
pub mod Operators
