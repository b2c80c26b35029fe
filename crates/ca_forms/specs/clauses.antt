pub mod Places
pub mod Heads
pub mod Next
pub mod Among
