pub mod Codes
pub mod Laying
pub mod Seen
pub mod Texts
pub mod clauses
