pub mod Slots
pub mod Heaps
pub mod Counted
pub mod Typed
pub mod Texts
pub mod Lines
