pub mod Judged
pub mod Scopes
pub mod Rules
pub mod Values
pub mod LocalView
pub mod View
pub mod clauses
