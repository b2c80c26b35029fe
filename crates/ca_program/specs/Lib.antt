pub mod Fields
pub mod Plain
pub mod View
pub mod Lines
pub mod Kinds
pub mod Instructions
pub mod Layout
