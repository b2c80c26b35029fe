pub mod Shapes
pub mod Heads
