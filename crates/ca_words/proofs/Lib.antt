mod Examples
pub mod Numbers
pub mod OneCommand
