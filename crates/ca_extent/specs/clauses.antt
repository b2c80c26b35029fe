pub mod Ids
pub mod Numbers
pub mod Reached
pub mod Rising
pub mod Targets
