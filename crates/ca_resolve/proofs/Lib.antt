pub mod Least
pub mod Judging
pub mod InMemory
pub mod CallValues
pub mod Lookups
pub mod Tables
pub mod Index
pub mod Innermost
pub mod CallNodes
pub mod Shapes
pub mod Arguments
pub mod Holding
mod Examples
