pub mod Receivers
pub mod Annotations
pub mod Locks
pub mod clauses
