pub mod Zeroed
pub mod Adding
pub mod Applied
pub mod Calls
pub mod Together
pub mod InPlace
pub mod Unsummed
