mod Fits
mod Lists
mod Judging
mod Types
mod Values
mod Statements
mod Returning
mod Methods
mod Members
mod Typing
mod Ascending
pub mod Numbers
mod Visible
mod Scoping
pub mod ScopedPrograms
mod LiteralTokens
mod LiteralExpressions
mod LiteralTrees
pub mod Texts
pub mod Once
pub mod Spelled
mod Examples
