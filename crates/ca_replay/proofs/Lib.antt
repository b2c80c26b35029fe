pub mod Steps
pub mod Standing
pub mod Blocks
pub mod Engine
pub mod Ends
