mod Examples
mod OneText
pub mod Steps
