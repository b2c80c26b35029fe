pub mod Copies
pub mod Driving
pub mod Flags
pub mod Handing
pub mod Loops
pub mod Marked
