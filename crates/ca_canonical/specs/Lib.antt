pub mod Marks
pub mod Texts
pub mod Spell
pub mod Annotated
pub mod Bare
pub mod Erased
pub mod ReadsBack
pub mod clauses
