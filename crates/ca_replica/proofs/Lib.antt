pub mod Steps
pub mod Clear
pub mod Copying
pub mod Once
pub mod Sums
pub mod Taking
pub mod Beginning
pub mod Applying
pub mod InPlace
pub mod Numbers
pub mod Arrays
pub mod Together
pub mod Putting
mod Examples
