mod Picking
mod Found
mod Placing
mod Emitted
pub mod OneText
mod Equal
mod Alike
pub mod Locked
mod Led
pub mod Marked
