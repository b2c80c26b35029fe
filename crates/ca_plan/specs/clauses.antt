pub mod Keeping
pub mod Loops
