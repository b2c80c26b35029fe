pub mod BadMarks
pub mod clauses
