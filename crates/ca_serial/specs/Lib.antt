pub mod Codes
pub mod Extents
pub mod Runs
pub mod clauses
