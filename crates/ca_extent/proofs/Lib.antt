pub mod Walks
pub mod Pairs
pub mod Searching
pub mod Members
pub mod Alike
pub mod Whole
