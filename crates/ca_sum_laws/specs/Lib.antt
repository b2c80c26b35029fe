pub mod Summed
pub mod Moves
pub mod Replicas
pub mod Facts
pub mod Calls
