pub mod Splitting
pub mod Segments
pub mod Existing
pub mod Replays
pub mod Going
pub mod OfProgram
mod Examples
