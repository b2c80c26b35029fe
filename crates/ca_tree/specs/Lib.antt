pub mod Plain
pub mod View
pub mod Codes
pub mod Spellings
pub mod Operators
