pub mod Slots
pub mod Alike
pub mod OnlySums
pub mod Heaps
pub mod Merging
pub mod Entering
pub mod Running
pub mod FromHeap
pub mod Facts
pub mod Calls
mod Examples
