pub mod Heavy
pub mod Starts
pub mod Codes
pub mod Sizes
pub mod Nodes
pub mod NodeFalls
pub mod clauses
