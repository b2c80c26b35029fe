pub mod Rules
pub mod Statements
pub mod Classes
pub mod clauses
